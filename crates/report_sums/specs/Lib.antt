pub mod Celled
pub mod Matters
pub mod Summed
pub mod Ways
pub mod Worths

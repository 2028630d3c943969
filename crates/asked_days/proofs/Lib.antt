pub mod Assigning
pub mod Counting
pub mod Keeping
pub mod Latest

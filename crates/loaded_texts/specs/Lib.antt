pub mod Changing
pub mod Growing
pub mod Keeping
pub mod Standing
pub mod Ways

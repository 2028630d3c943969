pub mod Keeping
pub mod Moved

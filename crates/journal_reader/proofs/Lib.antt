mod Digits
mod LineEnds
pub mod Whole

pub mod Blanks
pub mod Parts
pub mod Quiet
pub mod Stays

pub mod Upto
pub mod Valued

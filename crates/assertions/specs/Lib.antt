pub mod Assertions
pub mod Claims
pub mod Kept
pub mod Texts

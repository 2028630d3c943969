pub mod Earlier
pub mod Kept

pub mod Noting
pub mod Pairing
pub mod Ranges
pub mod Stars
pub mod Whole

pub mod Columns
pub mod Measuring

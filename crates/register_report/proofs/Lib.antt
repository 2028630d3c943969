pub mod ByDay
pub mod Counting
pub mod Cutting
pub mod Stepping

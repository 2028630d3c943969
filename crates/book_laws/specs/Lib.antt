pub mod Decimals
pub mod Lines
pub mod Reaching
pub mod Writing

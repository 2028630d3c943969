pub mod Named
pub mod Ordered
mod Rows
pub mod Widest
pub mod Written

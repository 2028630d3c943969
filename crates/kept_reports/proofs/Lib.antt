pub mod Bare
pub mod Laying
pub mod Noding
pub mod Serving
pub mod Spanning
pub mod Summing
pub mod Widening

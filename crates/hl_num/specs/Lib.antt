pub mod Decimal
pub mod Groups
pub mod Printing
pub mod ReadBack
pub mod Reading
pub mod Rounding
pub mod Shortest

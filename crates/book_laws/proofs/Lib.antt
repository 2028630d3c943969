pub mod Few
pub mod Lined
pub mod Reached
pub mod Wants
pub mod Watched
pub mod Written

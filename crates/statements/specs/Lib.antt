pub mod Chosen
pub mod Described
pub mod Exactly
pub mod Fits
pub mod OnPage
pub mod Turned
pub mod Written

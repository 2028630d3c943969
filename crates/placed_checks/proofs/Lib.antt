pub mod Lists
pub mod Elsewhere
pub mod Own
pub mod Held
pub mod Through
pub mod Units
pub mod Besides
pub mod Ordered
pub mod Asserting
pub mod Assigning
pub mod Written
pub mod Solved
pub mod Refusing
pub mod Making
pub mod Passing
pub mod Ranging
pub mod Answering
mod Worked

mod Alike
mod Digits
pub mod Runs

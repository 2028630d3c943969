mod Choosing
pub mod Plain
mod Saying

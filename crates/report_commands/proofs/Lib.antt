pub mod AnyYear
pub mod Answering
pub mod Fitting
pub mod Questions
pub mod Steps
pub mod Unmarked

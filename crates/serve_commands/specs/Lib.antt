pub mod Answering
pub mod Hosting
pub mod Lines
pub mod Stores

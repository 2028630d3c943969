pub mod Lives
pub mod Stored

pub mod RunReplies
pub mod Runs
pub mod Words

pub mod Answered
pub mod Sides

pub mod Building
pub mod Finders
pub mod Making
pub mod Patterns
pub mod Reading
pub mod Sought
pub mod Readings

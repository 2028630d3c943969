pub mod Moving
pub mod Relined

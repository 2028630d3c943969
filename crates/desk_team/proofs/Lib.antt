pub mod Joining
pub mod MemKits
pub mod Refusals
pub mod Takings

pub mod Histories
pub mod Links
pub mod Memory
pub mod Stores

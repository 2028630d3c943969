pub mod Accounts
pub mod Added
pub mod ByDay
pub mod Entries
pub mod Items
pub mod Kept
pub mod Names
pub mod Order
pub mod Others
pub mod Places
mod Rows
pub mod Standing
pub mod Tables

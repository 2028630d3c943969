pub mod Occurring
pub mod Amounts
pub mod Accounts
pub mod Added
pub mod Making
pub mod Counted

pub mod Amounts
pub mod Columns
pub mod Entries
pub mod Journal
pub mod Layout
pub mod Order
pub mod Texts

pub mod Keywords
pub mod Prices
pub mod QueryWords
pub mod Rules

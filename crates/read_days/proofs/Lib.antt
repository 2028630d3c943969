pub mod Dates
pub mod Entries
pub mod Giving
pub mod Items
pub mod Numbers

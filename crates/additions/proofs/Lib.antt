pub mod Answering
pub mod Handing
pub mod Booking
pub mod Finding
pub mod Grouping
pub mod Joining
pub mod Judging
pub mod Lists
pub mod Quietly
pub mod Refusing
pub mod Unended
pub mod Unmarked
mod Rows
pub mod Telling
pub mod Unassigned
pub mod Costs

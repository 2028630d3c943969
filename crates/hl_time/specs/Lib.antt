pub mod Calendar
pub mod Date
pub mod Units
pub mod Split
pub mod Shown
pub mod Words
pub mod Periods

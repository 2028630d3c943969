pub mod Chosen
pub mod Recurring
pub mod Replacing
pub mod Totals
pub mod Multiplied

pub mod Full
pub mod Histories
pub mod Stays

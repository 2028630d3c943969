pub mod Hostings
pub mod Houses
pub mod Teams

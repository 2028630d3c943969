pub mod Days
pub mod Places
pub mod Totals

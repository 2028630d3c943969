pub mod Texts
pub mod Keeping
pub mod Under
pub mod Balanced

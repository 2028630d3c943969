pub mod Exchanged
pub mod Numbered
pub mod Telling

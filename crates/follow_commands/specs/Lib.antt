pub mod Genuine
pub mod Tallies
pub mod Walks
pub mod Whole

pub mod Built
pub mod Folds
pub mod Nots
pub mod Refusals
pub mod Sources
pub mod Texts
pub mod Walks

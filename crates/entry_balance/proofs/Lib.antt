pub mod Adding
pub mod Causes
pub mod Covers
pub mod Filled
pub mod InPlace
pub mod Named
pub mod Only
pub mod Pairs
pub mod Settling
pub mod Sides
pub mod Trimmed
pub mod Turnover
pub mod Totals
mod Doubled

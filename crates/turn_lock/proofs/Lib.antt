pub mod Prefixes
pub mod Histories
pub mod Rosters
pub mod Keeping
pub mod Standings
pub mod Ending
pub mod Growth

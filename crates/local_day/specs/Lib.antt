pub mod LocalDay
pub mod Naming
pub mod Zones

pub mod Apart
pub mod Asks
pub mod Closed
pub mod Notes
pub mod Spots
pub mod Walks

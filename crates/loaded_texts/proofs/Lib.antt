pub mod Answered
pub mod Lengths
pub mod Loads
pub mod MetCounts
pub mod Moved
pub mod Pieces
pub mod Places
pub mod Putting

pub mod Changing
pub mod LinesOf
pub mod Meeting
pub mod OneEntry
pub mod Replacing
pub mod Standing

pub mod Fed
pub mod Kept
pub mod Left
pub mod Opened

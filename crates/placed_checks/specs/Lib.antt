pub mod Judging
pub mod Placed
pub mod Unmixed

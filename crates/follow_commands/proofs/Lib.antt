pub mod CatchingUp
pub mod Joining
pub mod Walking

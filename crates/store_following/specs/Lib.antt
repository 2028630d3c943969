pub mod Following
pub mod Led
pub mod Lengths
pub mod Lines
pub mod Ready
pub mod Refusals
pub mod Replicas

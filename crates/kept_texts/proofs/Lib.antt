pub mod Alikes
pub mod Ended
pub mod Gapped
pub mod Lineless

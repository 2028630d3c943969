pub mod Begun
pub mod Explained
pub mod FileFaults
pub mod Parts
pub mod Places
pub mod Sentences

pub mod Adding
pub mod Apart
pub mod Asked
pub mod Coming
pub mod Faults
pub mod Kept
pub mod Meaning
pub mod Words

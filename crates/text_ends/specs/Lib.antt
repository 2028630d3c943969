pub mod Ends
pub mod Growth
pub mod Going
pub mod Told
pub mod Whole

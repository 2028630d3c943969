pub mod Shown
pub mod Sought
pub mod Spanned
pub mod Whole

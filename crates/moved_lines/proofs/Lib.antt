pub mod Backs
pub mod Lists
pub mod Numbering
pub mod Placing
pub mod Settles
pub mod Solved
pub mod Solving
pub mod Unseen

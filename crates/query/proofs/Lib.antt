pub mod Alike
pub mod Bounds
pub mod Built
pub mod Dateless
pub mod Names
pub mod SameMeaning
pub mod Walks

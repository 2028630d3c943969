pub mod Alike
pub mod Directives
pub mod Kept
pub mod Marks
pub mod Texts
pub mod Totals

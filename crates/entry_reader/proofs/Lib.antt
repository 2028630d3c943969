pub mod Behind
pub mod Both
pub mod Entries
pub mod Fronts
pub mod Lines
pub mod Named
pub mod Names
pub mod Parts
pub mod Places
pub mod Remarks
pub mod TagSteps
pub mod Texts
mod Rows
pub mod After

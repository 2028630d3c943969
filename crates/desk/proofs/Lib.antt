pub mod AskingLaws
mod Again
mod Complete
pub mod Converted
mod Done
mod DryEdits
pub mod DryLaws
pub mod Edited
mod Imported
mod Keeping
mod Named
mod Opened
mod Previewed
pub mod Quiet
mod ReadingLaws
mod Refused
mod Reported
mod Rooms
pub mod Runs
mod SameFinds
mod Served
pub mod Still
mod Texts

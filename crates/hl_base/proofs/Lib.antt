pub mod CallRecords
mod CutLemmas
pub mod DiskLaws
pub mod DoorLaws
pub mod Files
pub mod FirstEnds
pub mod LineLemmas
mod Padding
pub mod Replays
pub mod ShelfLaws
pub mod Stops
mod Transfers
mod WhiteEnds

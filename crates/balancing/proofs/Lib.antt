mod Rows
pub mod Parts
pub mod Fewest
pub mod Adding
pub mod Ordered
pub mod Turned
pub mod Few
pub mod Walked
pub mod Whole
pub mod Balanced
pub mod Giving
pub mod Given
mod Back
pub mod Ranged
pub mod Making
pub mod Passing
pub mod Told
pub mod SolvingOrders
pub mod SolvingSums
pub mod SolvingPlaces
pub mod SolvingGroups
pub mod SolvingWalk
pub mod SolvingRising
pub mod SolvingSeen
pub mod SolvingMade
pub mod SolvingTxn
pub mod SolvingFixed
pub mod SolvingLists
pub mod SolvingBook
pub mod Solving
pub mod SolvingRows
pub mod SolvingUnits
pub mod FaultingPlaces
pub mod FaultingWalk
pub mod FaultingCauses
pub mod FaultingGroups
pub mod Faulting
mod Telling
mod FaultingRows
mod Wanting
mod Singles

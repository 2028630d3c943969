pub mod Check
pub mod Entry
pub mod Fill
pub mod Pair
pub mod Settled
pub mod Tally
pub mod Turnover
pub mod Values

pub mod Order
pub mod Reach
pub mod Sought
pub mod Totals
pub mod Walk
pub mod Watches

pub mod Booking
pub mod Fitting
pub mod Holding
pub mod Placing
pub mod Ranged
pub mod Units

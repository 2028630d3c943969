mod Asking
pub mod Fitting
pub mod Indexing
pub mod Telling
pub mod Bounding
pub mod Whole
pub mod Adding
pub mod Known
pub mod Besides
pub mod Replacing
pub mod Walking
pub mod Orders
pub mod Daily
pub mod Lasting

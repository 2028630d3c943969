mod LineEnds
pub mod Alike
pub mod Bounds
pub mod Broken
pub mod Counting
pub mod Cutting
pub mod Ending
pub mod Faults
pub mod Lasts
pub mod Lining
pub mod Measures
pub mod Passing
pub mod Plain
pub mod Reaching
pub mod Saying
pub mod Stepping
pub mod Walking

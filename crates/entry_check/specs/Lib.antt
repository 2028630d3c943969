pub mod Asked
pub mod Asking
pub mod Checked
pub mod Failing
pub mod Making
pub mod Ranging
pub mod Steps

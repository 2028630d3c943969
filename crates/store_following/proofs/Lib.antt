pub mod Asking
mod Completing
pub mod Ending
pub mod LedLaws
pub mod StoreLaws

pub mod Names
pub mod Commands
pub mod Values
pub mod Items
pub mod Conflicts
pub mod Options
pub mod Programs
pub mod Terms

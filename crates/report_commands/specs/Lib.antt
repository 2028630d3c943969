pub mod Answered
pub mod Commands
pub mod Faults
pub mod Jobs
pub mod Layouts
pub mod Matters
pub mod Patterns
pub mod Reports

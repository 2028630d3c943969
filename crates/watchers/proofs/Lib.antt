pub mod Above
pub mod Firsts
pub mod Members
pub mod Orders
pub mod Tests
pub mod Walking

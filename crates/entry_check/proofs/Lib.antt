pub mod Asked
pub mod Counting
pub mod Once
pub mod Holding
pub mod Within
pub mod Giving
pub mod Judging
pub mod Beyond

pub mod Alike
pub mod Nodes
pub mod Served

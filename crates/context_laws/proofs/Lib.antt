mod Applied
mod Filtered
mod Folded
mod Placing
mod Rows

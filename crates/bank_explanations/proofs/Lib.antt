mod Accounts
mod Counting
mod FileEnds
mod Finding
mod Marks
mod Opening
mod Rows
mod Walking

pub mod Answering
mod Checking
mod Closings
mod Explaining
mod ItemLines
mod Loading

mod Breaking
mod Lined
mod Numbering

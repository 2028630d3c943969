mod Indexed
mod Parts
mod Places

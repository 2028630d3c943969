mod Completing
mod Doors
mod Houses

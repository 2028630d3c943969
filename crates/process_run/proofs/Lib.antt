mod Arguments
mod Ending

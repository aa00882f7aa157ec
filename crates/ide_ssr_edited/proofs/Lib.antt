mod Swaps
mod Outermost
mod Telling

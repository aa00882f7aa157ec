mod Searching
mod Spelled

mod Ahead
mod Once
mod Sorted
mod Showing
mod Telling

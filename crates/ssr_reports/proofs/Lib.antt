mod Joined
mod Marks
mod Gaining
mod Behind

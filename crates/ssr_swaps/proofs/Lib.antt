mod Alike
mod NodeMarks
mod Left
mod Tables

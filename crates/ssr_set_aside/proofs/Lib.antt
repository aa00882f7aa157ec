mod Left
mod Places
mod KeptPlaces
mod Beside
mod Stripped
mod Blanks
mod PartLaws

mod Tops
mod Between
mod Spelled
mod Values
mod FormatStrings

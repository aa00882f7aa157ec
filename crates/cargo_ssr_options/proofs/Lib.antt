mod Colons
mod Paragraphs
mod Together

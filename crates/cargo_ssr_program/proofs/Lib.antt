mod Endings
mod InFiles

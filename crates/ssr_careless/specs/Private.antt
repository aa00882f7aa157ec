pub mod Careless

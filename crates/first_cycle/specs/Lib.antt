pub mod Levels
pub mod Ways
pub mod Numbers

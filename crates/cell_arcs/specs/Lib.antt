pub mod Shape
pub mod Senses
pub mod Steps
pub mod Library
pub mod IsLibrary
pub mod Firsts
pub mod Samples

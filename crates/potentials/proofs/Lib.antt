pub mod Collected
pub mod Rooted
mod Growth
mod Steps

pub mod States
pub mod Ahead
pub mod Turns
pub mod Wants

pub mod Keeping
pub mod Limit
pub mod Reach
pub mod Knowing
pub mod Moves
pub mod Samples

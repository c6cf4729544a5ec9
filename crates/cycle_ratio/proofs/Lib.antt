pub mod Trees
pub mod Raises
pub mod Lowest

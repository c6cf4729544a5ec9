pub mod Cycles
pub mod Trees

pub mod Ratio
pub mod Within

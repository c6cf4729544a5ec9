pub mod Makers
pub mod Times
pub mod Trees
pub mod Raised

pub mod Signed
pub mod Tight
pub mod Roots
pub mod Uniqueness
pub mod Existence

pub mod Lists
pub mod Unraised
pub mod Passes
pub mod Turned
pub mod Least
pub mod Opening

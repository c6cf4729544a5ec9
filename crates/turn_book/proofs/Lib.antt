pub mod Sums
pub mod Prefixes
pub mod Steps
pub mod Turns
pub mod Seating
pub mod Calls

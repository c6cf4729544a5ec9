pub mod About
pub mod Views
pub mod Rule
pub mod Seats
pub mod Known
pub mod Samples

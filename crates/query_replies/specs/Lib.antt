pub mod Readings
pub mod Served

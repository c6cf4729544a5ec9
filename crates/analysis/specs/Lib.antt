pub mod Forks
pub mod Faults
pub mod Analysis
pub mod InverterRing

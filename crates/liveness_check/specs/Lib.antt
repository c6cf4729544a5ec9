pub mod Liveness
pub mod Shown

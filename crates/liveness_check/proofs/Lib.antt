pub mod Returns
pub mod Offsets
pub mod Outcomes
pub mod OneFault
pub mod Soundness
pub mod Ranks

pub mod Counts
pub mod Faults
pub mod Files
pub mod MemoryShelf
pub mod MemorySink
pub mod Rows
pub mod Seen
pub mod Written

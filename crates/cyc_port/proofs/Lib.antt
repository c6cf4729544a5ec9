pub mod CountLemmas
pub mod Reading
pub mod Shelves
pub mod ShelfSteps
pub mod Sinks

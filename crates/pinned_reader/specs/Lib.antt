pub mod Rows
pub mod Queries

pub mod Name
pub mod Number
pub mod ReadBack
pub mod Spans
pub mod Words
pub mod Written

pub mod Words
pub mod Answers
pub mod Courses
pub mod Files
pub mod Commands
pub mod Runs
pub mod Steps

pub mod Ranges
pub mod Answers
pub mod Page

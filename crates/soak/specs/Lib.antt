pub mod Soak
pub mod Ends
pub mod Answers
pub mod Opened
pub mod Examples

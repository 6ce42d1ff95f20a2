pub mod Table
pub mod Drive
pub mod Fan
pub mod Answers
pub mod Opened
pub mod Examples

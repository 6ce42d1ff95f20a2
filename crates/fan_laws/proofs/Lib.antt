pub mod Order
pub mod Steps
pub mod Codes
pub mod Duties
pub mod Answers

pub mod Refusal
pub mod Reader
pub mod Loops
pub mod Whole
pub mod Opened

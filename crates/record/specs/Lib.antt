pub mod Record
pub mod Kinds
pub mod Fours
pub mod Writer
pub mod Opened
pub mod Codes
pub mod Examples
pub mod Stopped

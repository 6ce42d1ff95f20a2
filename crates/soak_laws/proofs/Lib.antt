pub mod Decided
pub mod Ways
pub mod FullRun
pub mod Reading
pub mod Unread
pub mod Codes

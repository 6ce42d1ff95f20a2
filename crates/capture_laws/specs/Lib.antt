pub mod Schedule
pub mod Codes
pub mod Places
pub mod Events
pub mod Written
pub mod Examples
pub mod PairExamples

pub mod Account
pub mod Verdict
pub mod Latches
pub mod Opened
pub mod Examples

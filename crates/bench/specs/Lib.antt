pub mod Bench
pub mod Examples

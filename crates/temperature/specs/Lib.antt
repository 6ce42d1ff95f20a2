pub mod Temperature
pub mod Opened
pub mod Vectors

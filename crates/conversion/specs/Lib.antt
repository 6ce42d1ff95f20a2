pub mod Conversion
pub mod Channels
pub mod Opened

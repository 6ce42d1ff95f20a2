pub mod Stamps
pub mod Tach
pub mod Opened
pub mod Examples

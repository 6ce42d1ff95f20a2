pub mod Devices
pub mod Seen
pub mod Stepping
pub mod Answering
pub mod Absent
pub mod Lines
pub mod Examples

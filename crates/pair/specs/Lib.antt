pub mod Bus
pub mod Mask
pub mod Ranges
pub mod Hand
pub mod Opened

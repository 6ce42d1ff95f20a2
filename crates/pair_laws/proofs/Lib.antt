pub mod TwoDevices
pub mod OtherStays
pub mod EachAlone
pub mod Lines
pub mod WhoAnswers
pub mod OneDevice
pub mod Stepping

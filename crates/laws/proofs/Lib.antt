pub mod Arms
pub mod Choices
pub mod OneAnswer
pub mod Exactly
pub mod Tables
pub mod Buffers

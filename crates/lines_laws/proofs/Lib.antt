pub mod Numbered
pub mod Turns
pub mod Endings

pub mod Laws
pub mod Held
pub mod Bytes
pub mod Whole
pub mod TwosComplement

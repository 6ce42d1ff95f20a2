pub mod Writings
pub mod RoundTrip
pub mod Known
pub mod Codes
pub mod Conversions

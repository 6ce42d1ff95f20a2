pub mod WholeListing
pub mod Turns
pub mod Listing
pub mod Examples

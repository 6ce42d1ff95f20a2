pub mod Making
pub mod Loop
pub mod Listings
pub mod Laying
pub mod Stepping

pub mod Loop
pub mod Told

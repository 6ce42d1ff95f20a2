pub mod Runs
pub mod Tables
pub mod Told
pub mod Loop
pub mod OneAnswer

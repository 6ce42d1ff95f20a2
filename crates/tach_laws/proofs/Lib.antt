pub mod Periods
pub mod Counts
pub mod Runs
pub mod Codes
pub mod Answers
pub mod Ranges
pub mod Start
pub mod Told

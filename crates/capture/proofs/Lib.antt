pub mod Turns
pub mod Outcomes
pub mod Limits
pub mod InRange
pub mod Three
pub mod Feeds
pub mod Records
pub mod Leads

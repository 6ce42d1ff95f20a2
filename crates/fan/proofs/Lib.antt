pub mod Entries
pub mod Signed
pub mod Rounds
pub mod Answers

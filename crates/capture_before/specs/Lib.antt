pub mod BeforePair
pub mod AsBefore
pub mod Examples

pub mod BeforePair

pub mod BenchStep
pub mod Examples

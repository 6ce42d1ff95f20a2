pub mod BenchWrite
pub mod Examples

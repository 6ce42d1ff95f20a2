pub mod List
pub mod Loop
pub mod Examples

pub mod Bits
pub mod Page
pub mod Rows
pub mod Opened
pub mod Printed

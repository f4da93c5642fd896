pub mod Bench
pub mod Line

pub mod Rows
pub mod Cycles
pub mod Cover
pub mod Resume

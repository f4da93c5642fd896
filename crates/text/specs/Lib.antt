pub mod Bytes
pub mod Parts
pub mod Number
pub mod Lines
pub mod Pair

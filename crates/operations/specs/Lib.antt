pub mod NearCall
pub mod Ret
pub mod Arithmetic
pub mod Time

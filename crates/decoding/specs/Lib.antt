pub mod Code
pub mod Charge
pub mod Condition

pub mod Cycles
pub mod Totals
pub mod Places
pub mod Bottom
pub mod Lines
pub mod Rows

pub mod Memory
pub mod Staged

pub mod Address
pub mod Sources

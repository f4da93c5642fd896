pub mod Word
pub mod U256

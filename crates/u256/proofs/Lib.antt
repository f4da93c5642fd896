pub mod WordLaws
pub mod U256Laws
pub mod Examples

pub mod Tally
pub mod Entries

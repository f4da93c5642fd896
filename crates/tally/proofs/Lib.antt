pub mod TallyLaws
pub mod EntriesLaws
pub mod Examples

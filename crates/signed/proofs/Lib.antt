pub mod SignedLaws
pub mod Examples

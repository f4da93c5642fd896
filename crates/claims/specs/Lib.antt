pub mod Core
pub mod Answers
pub mod Edges
pub mod SourceWord
pub mod WritePlace

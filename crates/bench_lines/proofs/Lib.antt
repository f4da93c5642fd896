pub mod TurnsLaws

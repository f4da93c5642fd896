pub mod ListingLaws
pub mod RoomLaws
pub mod Example

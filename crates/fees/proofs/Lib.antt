pub mod BillLaws
pub mod RoomLaws
pub mod Example

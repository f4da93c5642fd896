pub mod Fee
pub mod Bill

pub mod BytesLaws
pub mod PartsLaws
pub mod NumberLaws
pub mod FieldsLaws
pub mod PairLaws
pub mod InputLaws

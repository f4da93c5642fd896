pub mod CheckLaws
pub mod OperandsLaws
pub mod NearCallLaws
pub mod RetLaws
pub mod AnswerLaws
pub mod ExecuteLaws

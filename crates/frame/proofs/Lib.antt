pub mod KernelLaws
pub mod RowLaws
pub mod StoreLaws
pub mod Examples

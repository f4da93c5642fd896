pub mod Kernel
pub mod Row
pub mod Fields
pub mod Bounds
pub mod Store

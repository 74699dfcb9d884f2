pub mod Scale
pub mod Factoring
pub mod Store
pub mod Scaling
pub mod Reduced
pub mod Rows
pub mod Columns

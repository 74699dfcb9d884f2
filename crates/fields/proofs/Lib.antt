pub mod Finding
pub mod Walking
pub mod Parts
pub mod Entries
pub mod Whole
pub mod Examples

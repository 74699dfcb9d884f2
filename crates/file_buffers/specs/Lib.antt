pub mod Parts
pub mod Filing

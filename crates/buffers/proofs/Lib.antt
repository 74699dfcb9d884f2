pub mod Loading
pub mod Stores
pub mod Sizes

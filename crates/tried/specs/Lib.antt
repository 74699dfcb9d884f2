pub mod Tried
pub mod Search

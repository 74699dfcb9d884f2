pub mod Writing
pub mod Listing
pub mod Decisions
pub mod Fitting
pub mod Meanings
pub mod Codes

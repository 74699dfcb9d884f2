pub mod Examples
pub mod Bits
pub mod Diagonals
pub mod Searches
pub mod Trials
pub mod Walked
pub mod Stored
pub mod Strong

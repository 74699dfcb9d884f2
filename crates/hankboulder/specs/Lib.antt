pub mod PoolBuffers
pub mod Entries
pub mod Meanings

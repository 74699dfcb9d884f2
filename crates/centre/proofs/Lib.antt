pub mod Magnitudes
pub mod EqualEnds

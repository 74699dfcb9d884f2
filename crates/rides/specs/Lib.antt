pub mod Act
pub mod Rides
pub mod Reading

pub mod Laying
pub mod Held
pub mod Stored
pub mod Wanted
pub mod Meaning
pub mod Readings
mod Examples

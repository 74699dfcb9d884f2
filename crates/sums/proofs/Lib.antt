pub mod InPlace
pub mod Checked
pub mod Fronts
pub mod Outcomes
pub mod Laying
pub mod Explained

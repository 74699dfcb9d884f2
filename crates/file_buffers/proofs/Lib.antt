pub mod Fronts
pub mod Handing
pub mod Back
pub mod Filed
pub mod Rewritten
pub mod Examples

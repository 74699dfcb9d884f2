pub mod Centre
pub mod Centred
pub mod Required

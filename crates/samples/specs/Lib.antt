pub mod Samples
pub mod Gains
pub mod Gathering
pub mod Required
pub mod Explaining

pub mod Quotients
pub mod Descending
pub mod Meanings
pub mod Stating
pub mod Fitting

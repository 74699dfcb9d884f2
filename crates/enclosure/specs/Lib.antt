pub mod Box
pub mod Points
pub mod Act
pub mod Stating

pub mod Judge
pub mod FactorTable
pub mod Deciding

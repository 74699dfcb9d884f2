pub mod Residual
pub mod FactorTest
pub mod ResidualAct
pub mod Scratch

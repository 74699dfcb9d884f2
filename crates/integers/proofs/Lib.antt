pub mod Parts
pub mod Polynomial
pub mod Solver
pub mod Order
pub mod Extremes
pub mod Sums
pub mod Division
pub mod Roots
pub mod Certificate
pub mod Machine
mod Examples

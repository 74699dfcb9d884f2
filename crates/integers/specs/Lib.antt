-- Definitions over ℤ that contracts cite. Their laws are in proofs/.
pub mod Numbers
pub mod Sum
pub mod Division
pub mod Root

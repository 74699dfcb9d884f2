pub mod Examples
pub mod Sizes
pub mod StoppedFactor
pub mod Solving
pub mod SolvedVector
pub mod Stops

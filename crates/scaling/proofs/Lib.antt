pub mod Powers
pub mod Greatest
pub mod Scales
pub mod Parts
pub mod Scaled
pub mod Both

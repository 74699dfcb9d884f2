pub mod Near
pub mod Measuring
pub mod Products
pub mod Gains
pub mod Room
pub mod Laid

pub mod Between
pub mod Signs
pub mod Products
pub mod Quotients

mod Examples
pub mod Puts
pub mod Digits
pub mod Endings
pub mod SameLines

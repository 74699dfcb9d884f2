pub mod Lists
pub mod Library
pub mod Laws
pub mod Filling
pub mod Sign

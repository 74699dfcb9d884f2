pub mod Fields
pub mod Acting
mod Again
mod Examples

pub mod Bracket
pub mod Descent

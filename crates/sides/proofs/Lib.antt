pub mod HalfSides
pub mod SameBox

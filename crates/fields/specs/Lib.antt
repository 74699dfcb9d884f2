pub mod Fields
pub mod Layouts
pub mod Entries
pub mod Pieces

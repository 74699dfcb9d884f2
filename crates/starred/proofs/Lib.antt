pub mod Starred
pub mod CaseP

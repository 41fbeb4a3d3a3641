pub mod Obligations
pub mod Touched
pub mod Examples

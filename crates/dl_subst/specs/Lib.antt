pub mod Change
pub mod Substitution
pub mod Code

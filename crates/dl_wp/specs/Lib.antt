pub mod Choices
pub mod Steps
pub mod Before
pub mod Captures
pub mod First
pub mod Code
pub mod Conditions

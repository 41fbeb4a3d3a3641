pub mod Answers
pub mod Early
pub mod Reading

pub mod Shown
pub mod Programs
pub mod Scripts
pub mod Whole
pub mod Opened

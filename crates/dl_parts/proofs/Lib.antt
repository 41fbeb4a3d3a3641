mod Parts
pub mod Shown

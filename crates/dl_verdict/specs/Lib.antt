pub mod Keys
pub mod Code
pub mod Parts

pub mod Clean
pub mod Bounds
pub mod Sizes
pub mod Grounds
pub mod Plain
pub mod Known
pub mod Examples

pub mod Packed
pub mod Laid
pub mod Places
pub mod Shapes
pub mod Soup
pub mod Known
pub mod Kept
pub mod Writes

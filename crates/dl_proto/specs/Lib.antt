pub mod Shaped
pub mod Ready
pub mod Given
pub mod Writes

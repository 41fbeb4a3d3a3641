pub mod Serial
pub mod Given
pub mod Players
pub mod Turns
pub mod Begun
pub mod Traced
pub mod Ended

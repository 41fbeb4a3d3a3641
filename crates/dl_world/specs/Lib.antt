pub mod Positions
pub mod Composed
pub mod Injected
pub mod Framed
pub mod Shaped

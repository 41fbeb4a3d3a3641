mod Rests
mod Marking
mod Framing
pub mod Injecting
mod Shaping
mod Tried

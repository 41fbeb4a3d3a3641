pub mod Sized
mod Backwards
pub mod Finding

pub mod Slots
pub mod Stack
pub mod Places
pub mod Ready
pub mod Moves
pub mod Asked

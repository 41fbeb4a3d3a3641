pub mod Bound
pub mod Keys
pub mod Decided

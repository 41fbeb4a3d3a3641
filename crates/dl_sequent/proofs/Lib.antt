pub mod Bounded
pub mod Facts
pub mod Scoped
pub mod Follows

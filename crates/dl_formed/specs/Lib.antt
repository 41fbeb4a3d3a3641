pub mod Scoped
pub mod Known
pub mod Decided
pub mod Collected
pub mod Marked
pub mod Programs
pub mod Sighted
pub mod Whole

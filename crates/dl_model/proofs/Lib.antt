pub mod Small
pub mod Sorted
pub mod Matches
pub mod Prefixes
pub mod Examples

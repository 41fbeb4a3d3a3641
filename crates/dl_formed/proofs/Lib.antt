pub mod Deciding
pub mod Knowing
pub mod Judging
pub mod Marking
pub mod Listing
pub mod Running
pub mod Entire
pub mod Ranges

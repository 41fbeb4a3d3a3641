pub mod Changed
pub mod Between
pub mod OwnLemmas
pub mod Whole

pub mod Choices
pub mod Quantifiers
pub mod Agree
pub mod Bounded
pub mod SameLemmas

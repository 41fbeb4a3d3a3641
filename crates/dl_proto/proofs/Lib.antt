pub mod Found
pub mod Options
pub mod UpdateLemmas
pub mod StepLemmas
pub mod FirstShape
pub mod Swappers
pub mod SentLemmas

pub mod SlotLemmas
pub mod ValueLemmas
pub mod PlaceLemmas
pub mod Moving
pub mod Replying
pub mod FormedLemmas
pub mod Asking

pub mod LaidLemmas
pub mod Filled
pub mod SlotLemmas

pub mod ListLemmas
pub mod LeaveLemmas

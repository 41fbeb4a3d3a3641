pub mod BoundLemmas
pub mod KeyLemmas
pub mod OnceLemmas
pub mod OwnLemmas
pub mod FileLemmas

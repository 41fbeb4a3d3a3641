pub mod AmongLemmas
pub mod FormulaLemmas
pub mod TermLemmas
pub mod BoundLemmas
pub mod ValueLemmas
pub mod ClaimLemmas
pub mod SliceLemmas

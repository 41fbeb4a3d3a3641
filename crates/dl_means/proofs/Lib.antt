pub mod TreeLemmas
pub mod WordLemmas
pub mod CommandLemmas
pub mod FitLemmas
pub mod Computing
pub mod MapLemmas
pub mod TextLemmas

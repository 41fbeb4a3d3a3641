pub mod TreeLemmas
pub mod FaultLemmas
pub mod NamingLemmas
pub mod BehindLemmas
pub mod TakenLemmas

pub mod CertificateLemmas
pub mod Moved
pub mod NodeLemmas
pub mod ProgramLemmas

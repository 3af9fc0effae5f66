pub mod RunLemmas
pub mod InfoLemmas
pub mod CertifiedLemmas
pub mod EnoughLemmas

pub mod SourcesLemmas
pub mod AssemblyLemmas
pub mod OwnLemmas

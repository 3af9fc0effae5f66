pub mod BeginLemmas
pub mod RegisterLemmas
pub mod MemoryLemmas
pub mod ChosenLemmas
pub mod HomeLemmas

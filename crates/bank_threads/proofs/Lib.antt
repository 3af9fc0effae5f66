pub mod ListLemmas
pub mod ChoiceLemmas
pub mod RunLemmas

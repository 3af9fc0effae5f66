pub mod ReadLemmas
pub mod ChosenLemmas
pub mod NamedLemmas
pub mod LeftLemmas
pub mod RunLemmas
pub mod StopLemmas

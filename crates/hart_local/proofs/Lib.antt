pub mod TableLemmas
pub mod CodeLemmas
pub mod StepLemmas
pub mod RunLemmas

pub mod CodeLemmas
pub mod LogLemmas
pub mod StepLemmas
pub mod AheadLemmas

pub mod StepLemmas
pub mod TurnLemmas
pub mod BelowLemmas
pub mod StatusLemmas

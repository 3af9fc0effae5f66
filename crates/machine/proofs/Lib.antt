pub mod WorldLemmas
pub mod StepLemmas
pub mod StartLemmas
pub mod RunLaws
pub mod StoppedLemmas

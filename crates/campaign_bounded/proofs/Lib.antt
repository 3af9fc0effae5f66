pub mod AmongLemmas
pub mod RunningLemmas
pub mod BoundedLemmas
pub mod WalkLemmas
pub mod FairLemmas
pub mod JudgeLemmas
pub mod SkipLemmas
pub mod DistinctLemmas

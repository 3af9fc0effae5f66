pub mod Overlap
pub mod RightsLemmas
pub mod Sound

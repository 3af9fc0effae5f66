pub mod LawLemmas
pub mod FoundLemmas
pub mod PlaceLemmas
pub mod SeenLemmas
pub mod StepLemmas
pub mod AfterLemmas

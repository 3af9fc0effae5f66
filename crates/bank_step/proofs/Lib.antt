pub mod RightsLemmas
pub mod BytesLemmas
pub mod StepLemmas
pub mod ImageLemmas
pub mod TableLemmas

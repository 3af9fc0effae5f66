pub mod WeavingLemmas
pub mod MergedLemmas
pub mod RisingLemmas
pub mod ChoiceLemmas

pub mod LineLemmas
pub mod OpeningLemmas
pub mod OutcomeLemmas
pub mod TalkLemmas

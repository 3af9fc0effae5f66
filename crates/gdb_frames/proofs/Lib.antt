pub mod WritingLemmas
pub mod ReadingLemmas
pub mod GrammarLemmas
pub mod FrameLemmas

pub mod FrontLemmas
pub mod AppendLemmas
pub mod NumberLemmas
pub mod ThreadLemmas
pub mod ReadingLemmas
pub mod PieceLemmas

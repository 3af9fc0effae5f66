pub mod OrderLemmas
pub mod SetLemmas
pub mod MatchLemmas
pub mod MergeLemmas
pub mod ListLemmas
pub mod PlaceLemmas
pub mod AccessOrderLemmas
pub mod OwnLemmas

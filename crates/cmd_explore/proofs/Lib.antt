pub mod KeepLemmas
pub mod ExploreLemmas
pub mod LineLemmas

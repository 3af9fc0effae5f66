pub mod ItemLemmas
pub mod Agreement
pub mod ExpandLemmas
pub mod PrintLemmas
pub mod LongestLemmas

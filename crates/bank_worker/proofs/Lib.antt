pub mod WalkedLemmas
pub mod WorkedLemmas
pub mod AlignedLemmas
pub mod OutsideLemmas

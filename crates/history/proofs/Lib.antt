pub mod EntryLemmas
pub mod Agreement
pub mod PrintLemmas
pub mod PlainLemmas
pub mod TextLemmas
pub mod ReplayLemmas
pub mod ChosenLemmas

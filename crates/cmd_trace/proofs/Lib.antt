pub mod CursorLemmas
pub mod CountLemmas
pub mod TellerLemmas
pub mod OutputLemmas
pub mod EntryLemmas
pub mod WholeLemmas
pub mod AnswerLemmas

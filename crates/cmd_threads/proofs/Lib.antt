pub mod ReplayLemmas
pub mod ThreadsLemmas
pub mod RunLemmas
pub mod ExitLemmas
pub mod AnswerLemmas

mod ProgramLemmas
pub mod JoinedLemmas

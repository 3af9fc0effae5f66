pub mod SeedLemmas
pub mod EndingLemmas
pub mod TallyLemmas
pub mod RunLemmas
pub mod JudgedLemmas
pub mod HangLemmas
pub mod WordLemmas

pub mod ItemLemmas
pub mod NumberLemmas
pub mod Numbers
pub mod Agreement
pub mod Decided
pub mod PrintLemmas
pub mod ByteLemmas

mod NumberLemmas
pub mod InputLemmas

pub mod NumberLemmas
pub mod PartLemmas
pub mod ListLemmas
pub mod NumeralLemmas

pub mod NumberLemmas
pub mod BoundLemmas

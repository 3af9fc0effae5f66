pub mod OrderLemmas
pub mod ReadLemmas
pub mod WriteLemmas
pub mod BuildLemmas
pub mod KeptLemmas

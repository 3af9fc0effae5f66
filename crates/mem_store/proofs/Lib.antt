pub mod AroundLemmas

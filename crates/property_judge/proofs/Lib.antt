pub mod JudgedLemmas
pub mod RunLemmas
pub mod FirstLemmas
pub mod KeptLemmas
pub mod ReachLemmas

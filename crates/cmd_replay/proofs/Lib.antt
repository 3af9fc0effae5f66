pub mod ShownLemmas
pub mod KeptLemmas

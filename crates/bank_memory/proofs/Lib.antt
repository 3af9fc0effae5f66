pub mod OrderLemmas
pub mod BankLemmas
pub mod EntryLemmas
pub mod StampLemmas

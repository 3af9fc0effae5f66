pub mod Spelled
pub mod Found
pub mod Or
pub mod NameLemmas

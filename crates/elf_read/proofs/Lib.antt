pub mod HeaderLemmas
pub mod FileLemmas
pub mod NameLemmas
pub mod SectionLemmas
pub mod SymbolLemmas

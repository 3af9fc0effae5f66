pub mod LayoutLemmas
pub mod SectionLemmas
pub mod TableLemmas
pub mod ReadLemmas
pub mod LoadLemmas

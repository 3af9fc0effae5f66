pub mod DirectoryLemmas
pub mod SegmentLemmas
pub mod TableLemmas
pub mod RightLemmas
pub mod AccessLemmas
pub mod StoreLemmas
pub mod BuildLemmas
pub mod CodeLemmas

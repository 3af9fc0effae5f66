pub mod RangeLemmas
pub mod RowLemmas
pub mod ReportLemmas
pub mod RunLemmas
pub mod UntilLemmas

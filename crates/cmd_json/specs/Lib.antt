pub mod Verdict
pub mod Counts
pub mod Harts

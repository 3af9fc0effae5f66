pub mod Logs
pub mod Matching
pub mod Merge
pub mod AccessOrder

pub mod Limit
pub mod Marks
pub mod Holders
pub mod Reserve

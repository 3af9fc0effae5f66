pub mod Searched
pub mod Counted
pub mod Answers
pub mod Marked
pub mod Rows
pub mod Edges

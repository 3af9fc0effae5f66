pub mod Lines
pub mod Summary
pub mod Status
pub mod Answers
pub mod First
pub mod Kept
pub mod Until

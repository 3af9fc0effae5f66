pub mod Runs
pub mod Lines
pub mod Told
pub mod Answers
pub mod Choices
pub mod Until

pub mod Talk
pub mod Harts
pub mod Memory
pub mod Answers
pub mod Moves
pub mod Resumes

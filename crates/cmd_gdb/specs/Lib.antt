pub mod Reading
pub mod Answers
pub mod Serving
pub mod Opening

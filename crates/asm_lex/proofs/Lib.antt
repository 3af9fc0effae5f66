pub mod Scanned
pub mod Steps
pub mod Unique
pub mod Found
pub mod Spans
pub mod Ascii
pub mod LexemeSteps
mod Marks

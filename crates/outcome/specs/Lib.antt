pub mod Outcome
pub mod Expect
pub mod Ends

pub mod Own
pub mod Total
pub mod Plan
pub mod Whole
pub mod Outcome
pub mod Running
pub mod Seat

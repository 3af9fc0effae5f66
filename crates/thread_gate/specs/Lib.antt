pub mod Plan
pub mod Stopped

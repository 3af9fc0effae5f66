pub mod Faults
pub mod Sources
pub mod Assembly

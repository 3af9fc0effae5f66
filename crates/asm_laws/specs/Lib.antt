pub mod Reads
pub mod Own
pub mod Faults
pub mod Programs
pub mod PartFaults
pub mod Tokens

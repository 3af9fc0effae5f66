-- The definitions of the contracts.
pub mod Ranges
pub mod Table
pub mod Spells
pub mod Decoded
pub mod Names
pub mod Signed
pub mod Vectors

pub mod Banked
pub mod Ordered

pub mod Blocks
pub mod Kept

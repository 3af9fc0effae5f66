pub mod Run
pub mod Info
pub mod File
pub mod Certified
pub mod Enough

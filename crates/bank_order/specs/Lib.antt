pub mod Weaving
pub mod Logs
pub mod Rising
pub mod Merged

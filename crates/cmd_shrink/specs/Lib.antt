pub mod Failure
pub mod Shrink
pub mod Less
pub mod Edits
pub mod Minimal
pub mod Switches

pub mod Lines
pub mod Hangs
pub mod Objects
pub mod Shown

pub mod Walked
pub mod Worked

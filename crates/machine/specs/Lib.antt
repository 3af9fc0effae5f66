pub mod World
pub mod Machine
pub mod State
pub mod Start
pub mod Chosen
pub mod Wanting
pub mod Example
pub mod Running

pub mod Beginnings
pub mod Endings
pub mod TextSteps
pub mod Parts
pub mod Labels
pub mod Lines
pub mod Sources

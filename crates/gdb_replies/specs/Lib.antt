pub mod Fronts
pub mod Digits
pub mod Fixed
pub mod Threads
pub mod Stops
pub mod Target
pub mod Pieces
pub mod Reading

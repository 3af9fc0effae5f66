pub mod Points
pub mod Touches
pub mod Sights
pub mod Reasons
pub mod Moves
pub mod After
pub mod Steps

pub mod Blocks
pub mod Piles
pub mod Rooms
pub mod Sizes
pub mod Values
pub mod Walks

pub mod EndLines
pub mod BoundLines
pub mod Objects
pub mod Explore
pub mod Refusals

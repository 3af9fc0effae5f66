pub mod Lines
pub mod Listing
pub mod Pairs
pub mod Segments

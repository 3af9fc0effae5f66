pub mod Book
pub mod Segment
pub mod Kept
pub mod Present

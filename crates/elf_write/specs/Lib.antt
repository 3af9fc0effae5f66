pub mod Field
pub mod Layout
pub mod Segment
pub mod Table
pub mod Section
pub mod File

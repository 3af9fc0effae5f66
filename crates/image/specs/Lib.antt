pub mod Fault
pub mod Spans
pub mod Segment
pub mod Image

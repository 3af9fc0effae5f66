pub mod Left
pub mod Cursor
pub mod Teller
pub mod Output
pub mod Page
pub mod Trace
pub mod Answer

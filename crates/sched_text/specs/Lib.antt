pub mod Runs
pub mod Grammar
pub mod Reading
pub mod Printing

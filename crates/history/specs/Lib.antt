pub mod History
pub mod Grammar
pub mod Reading
pub mod Printing
pub mod Plain

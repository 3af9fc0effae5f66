pub mod Items
pub mod Numbers
pub mod Spelling
pub mod Reading
pub mod Printing

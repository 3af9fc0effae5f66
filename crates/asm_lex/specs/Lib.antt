pub mod Bytes
pub mod Numbers
pub mod Pieces
pub mod Reading
pub mod Grammar
pub mod Lexemes

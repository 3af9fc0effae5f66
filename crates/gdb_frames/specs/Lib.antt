pub mod Digits
pub mod Frames
pub mod Reading
pub mod Items
pub mod Grammar
pub mod Escapes

pub mod Property
pub mod Broken
pub mod Judged
pub mod First
pub mod Reach

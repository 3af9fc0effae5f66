pub mod Objects
pub mod Sources

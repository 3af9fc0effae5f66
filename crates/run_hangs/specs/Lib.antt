pub mod Hanging
pub mod Asked
pub mod Status

pub mod Answers
pub mod Asked
pub mod Every
pub mod Seeds

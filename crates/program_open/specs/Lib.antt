pub mod HexText
pub mod HexImage
pub mod CommandFaults
pub mod Program
pub mod Opening
pub mod Answers

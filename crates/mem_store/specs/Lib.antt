pub mod Memory
pub mod Access
pub mod Image
pub mod Instruction

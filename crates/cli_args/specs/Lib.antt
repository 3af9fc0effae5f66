pub mod Numbers
pub mod Inputs
pub mod Explaining

pub mod Prompt

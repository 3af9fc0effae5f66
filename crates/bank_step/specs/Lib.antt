pub mod Known
pub mod Told

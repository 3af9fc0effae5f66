pub mod Lines
pub mod Opening
pub mod Talk

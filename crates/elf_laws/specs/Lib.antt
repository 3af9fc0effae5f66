pub mod Fields
pub mod Given
pub mod Labels
pub mod Listed

pub mod Plans
pub mod Seeds

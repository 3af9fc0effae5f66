pub mod Mark
pub mod Nearest

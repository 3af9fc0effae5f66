pub mod Images
pub mod Cells
pub mod Rules
pub mod Sources
pub mod Judging
pub mod Names

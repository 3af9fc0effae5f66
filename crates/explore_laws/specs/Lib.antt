pub mod Settling
pub mod Quiet
pub mod Places
pub mod Safe
pub mod Covering
pub mod WaysOut
pub mod Bounds
pub mod OwnSteps

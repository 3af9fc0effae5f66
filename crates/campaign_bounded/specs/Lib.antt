pub mod Bounded
pub mod Preemptions
pub mod Walk
pub mod Spots
pub mod Fair

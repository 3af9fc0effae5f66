pub mod Commands
pub mod Texts
pub mod Monitoring
pub mod Reserving

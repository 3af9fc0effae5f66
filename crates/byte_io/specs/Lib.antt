pub mod Device
pub mod Status

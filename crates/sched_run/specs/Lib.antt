pub mod Harts
pub mod Chosen
pub mod Leads
pub mod Left
pub mod Spelled

pub mod TracePlans
pub mod Words

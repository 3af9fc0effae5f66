pub mod HartLog
pub mod LastStep

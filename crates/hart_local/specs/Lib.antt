pub mod CodeMemory
pub mod LocalStep
pub mod Tables
pub mod LocalRuns

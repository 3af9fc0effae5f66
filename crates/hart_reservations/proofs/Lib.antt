pub mod HoldersLemmas
pub mod NobodyLemmas

mod HexLemmas
mod HexImageLemmas
mod ProgramLemmas
pub mod FaultLemmas
mod HexLaws

pub mod Shape
pub mod Harts
pub mod ImageLemmas
pub mod TableLemmas
pub mod CellLemmas
pub mod Runs
pub mod JudgeLemmas
pub mod ChosenLemmas

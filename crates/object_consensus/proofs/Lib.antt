pub mod AmoRace
pub mod LrscRace

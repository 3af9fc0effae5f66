pub mod Threads
pub mod Exits
pub mod BankedAnswer

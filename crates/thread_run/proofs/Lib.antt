pub mod OwnLemmas
pub mod TicketLemmas
pub mod WholeLemmas
pub mod RunningLemmas
pub mod SeatLemmas

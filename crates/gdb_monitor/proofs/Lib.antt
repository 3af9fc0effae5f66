pub mod ReservingLemmas
pub mod HartLemmas

pub mod ConversationLemmas
pub mod MonitorLemmas
pub mod OpeningLemmas
pub mod PacketLemmas
pub mod ServerLemmas

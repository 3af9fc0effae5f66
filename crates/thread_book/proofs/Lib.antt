pub mod RunLemmas
pub mod PresentLemmas
pub mod SamenessLemmas

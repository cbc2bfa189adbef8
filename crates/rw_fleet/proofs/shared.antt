pub mod LaneLemmas
pub mod ListLemmas

pub mod MessageLemmas
pub mod OrderLemmas

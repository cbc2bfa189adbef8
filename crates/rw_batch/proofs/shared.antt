pub mod LabelLemmas
pub mod MessageLemmas
pub mod NumberLemmas

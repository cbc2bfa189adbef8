pub mod EndLemmas
pub mod ListLemmas

pub mod GrammarLemmas
pub mod FieldLemmas

pub mod FieldLemmas
pub mod HashLemmas
pub mod KnownLemmas
pub mod NameLemmas
pub mod WordLaws
mod WordRows
pub mod shared

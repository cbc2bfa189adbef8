pub mod BodyLemmas
pub mod FieldLemmas
pub mod GroupsLemmas
pub mod KeysLemmas
pub mod RowLemmas
pub mod StretchLemmas
pub mod shared

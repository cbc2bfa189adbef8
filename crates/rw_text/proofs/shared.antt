pub mod LineLemmas
pub mod OneLemmas
pub mod RecordLemmas
pub mod SplitLemmas

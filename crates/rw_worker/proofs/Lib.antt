pub mod PauseLemmas
pub mod CutLemmas
pub mod TranscriptLemmas
pub mod KeepsLemmas
pub mod NameLemmas
pub mod TakeLemmas
pub mod StateLemmas
pub mod shared

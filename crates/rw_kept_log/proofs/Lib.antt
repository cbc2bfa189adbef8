mod GreatestLemmas
mod HeaderLemmas
mod Holes
mod ImageLemmas
mod LeftLemmas
pub mod LogLemmas
mod OldLemmas
mod PlaceLemmas
mod ReadingLemmas
mod RecordAtLemmas
mod ReferenceLemmas
mod SegmentLemmas
mod TableLemmas
mod TornHeader
mod TornLemmas
mod WalkLemmas
mod WrittenLemmas
pub mod shared

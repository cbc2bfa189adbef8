pub mod CounterLemmas
pub mod FindingLemmas
pub mod InspectLemmas
pub mod PlacedLemmas
mod RowLemmas

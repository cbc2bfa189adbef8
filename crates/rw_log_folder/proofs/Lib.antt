pub mod GapLemmas
pub mod NewestLemmas
pub mod GrowingLemmas
pub mod LackLemmas

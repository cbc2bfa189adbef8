mod AdmittedLemmas
mod CapacityLemmas
mod GatheringLemmas
mod HoldingLemmas
mod QuestionMoves
mod StoredLemmas
pub mod shared

pub mod LogTextLemmas
pub mod PlanRuns
pub mod TakingLemmas
pub mod PlanLemmas
pub mod LabelledLemmas
pub mod LabellingLemmas
pub mod shared

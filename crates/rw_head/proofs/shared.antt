pub mod BodyLemmas
pub mod GrowthLemmas
pub mod OrderLemmas
pub mod OrderRule
pub mod StagingLemmas
pub mod StoreLemmas
pub mod VerdictLemmas

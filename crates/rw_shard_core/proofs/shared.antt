pub mod EmptyLemmas
pub mod KeptLemmas
pub mod NamingLemmas
pub mod StepGuards

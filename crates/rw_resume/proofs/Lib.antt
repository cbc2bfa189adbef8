mod ContinuationLemmas
mod CopyLemmas
mod FillingLemmas
mod GoingLemmas
mod PassingLemmas

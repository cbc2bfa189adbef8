mod AdmittedLemmas
mod CapacityLemmas
mod KeptLemmas
mod NotingLemmas
mod OpeningLemmas
mod PastLemmas
mod RestoringLemmas
mod WrittenLemmas

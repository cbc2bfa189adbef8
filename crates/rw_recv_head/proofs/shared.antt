pub mod StayingLemmas

pub mod BackoffLemmas

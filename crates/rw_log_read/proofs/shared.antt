pub mod HereLemmas
pub mod LogLemmas
pub mod ReadingLemmas

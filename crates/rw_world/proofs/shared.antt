pub mod AnswerLemmas
pub mod ReadingLemmas

pub mod AnswerLemmas
pub mod PlaceLaws

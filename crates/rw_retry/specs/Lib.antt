pub mod Backoff
pub mod Judgements

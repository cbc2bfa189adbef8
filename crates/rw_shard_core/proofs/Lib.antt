pub mod BodyLemmas
pub mod ReplyLemmas
pub mod RequestLemmas
pub mod shared

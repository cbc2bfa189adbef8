pub mod CacheLemmas
pub mod JudgedLemmas
pub mod NumberLemmas
pub mod TimestampLemmas
pub mod VerdictLemmas
pub mod shared

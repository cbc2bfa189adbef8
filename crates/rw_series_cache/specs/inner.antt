pub mod Cached
pub mod Noted
pub mod Verdicts

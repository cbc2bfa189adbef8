pub mod HeldLemmas
mod LifeLemmas
mod RestartLemmas

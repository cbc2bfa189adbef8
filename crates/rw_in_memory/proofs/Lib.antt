pub mod Held
pub mod AskLemmas
pub mod LineLemmas
pub mod ShipLemmas
pub mod ShippedLemmas

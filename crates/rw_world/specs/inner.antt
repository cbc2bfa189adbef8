pub mod Answering
pub mod Arriving
pub mod Guards
pub mod Held
pub mod Machine
pub mod Reached
pub mod Rounds
pub mod Sending

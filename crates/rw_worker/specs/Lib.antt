pub mod Cut
pub mod Transcript
pub mod Steps
pub mod Pauses
pub mod Setups
pub mod Stops
pub mod Report
pub mod inner

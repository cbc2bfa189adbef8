pub mod ShardHistories
pub mod Work
pub mod Fleets
pub mod Loads
pub mod Stopped
pub mod inner

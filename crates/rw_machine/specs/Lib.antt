pub mod Shards
pub mod Worlds
pub mod Steps
pub mod Settling
pub mod Promises

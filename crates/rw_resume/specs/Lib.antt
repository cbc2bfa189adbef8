pub mod Continuations
pub mod Files
pub mod Goings
pub mod Logs
pub mod Midway
pub mod Positions
pub mod inner

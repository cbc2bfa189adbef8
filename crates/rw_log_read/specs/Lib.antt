pub mod Logs
pub mod Sums
pub mod inner

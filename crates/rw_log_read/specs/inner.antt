pub mod Counted
pub mod Logs
pub mod Reading

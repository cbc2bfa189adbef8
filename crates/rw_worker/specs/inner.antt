pub mod Report
pub mod Steps
pub mod Stops

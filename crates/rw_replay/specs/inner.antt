pub mod Played
pub mod Runs
pub mod Ways
pub mod Writing

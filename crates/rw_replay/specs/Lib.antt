pub mod Played
pub mod Runs
pub mod Scripts
pub mod ScriptText
pub mod WorldText
pub mod inner

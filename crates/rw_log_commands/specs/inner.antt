pub mod Filling
pub mod Labelling
pub mod LogText
pub mod Logging
pub mod Planned
pub mod Running
pub mod Taking

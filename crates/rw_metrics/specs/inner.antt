pub mod Exposition
pub mod Rows
pub mod Lines

pub mod Buffers
pub mod Old
pub mod Reading
pub mod References
pub mod Reopening
pub mod Walking
pub mod Writing
pub mod Written

pub mod Readers
pub mod Statuses

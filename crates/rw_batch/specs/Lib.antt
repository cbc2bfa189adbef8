pub mod Grouping
pub mod Groups
pub mod Batches
pub mod inner

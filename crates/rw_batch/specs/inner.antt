pub mod Batches
pub mod Grouping
pub mod Kept

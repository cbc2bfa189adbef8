pub mod Hashing
pub mod LabelOrder

pub mod Meanings
pub mod Spelled
pub mod Validity

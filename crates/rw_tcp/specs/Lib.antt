pub mod Hearing
pub mod Receivers
pub mod Packing
pub mod Receptions
pub mod Added
pub mod Repeats
pub mod Doubts

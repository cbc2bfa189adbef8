pub mod Taking
pub mod Padding
pub mod Underway
pub mod Reading
pub mod FitLemmas
pub mod shared

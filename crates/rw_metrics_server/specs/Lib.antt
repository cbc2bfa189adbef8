pub mod Asking
pub mod Reply

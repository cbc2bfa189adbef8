pub mod Files
pub mod Noted
pub mod inner

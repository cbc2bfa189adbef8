pub mod Configs
pub mod Replies
pub mod SentRequest
pub mod Shard
pub mod Inside
pub mod Endings
pub mod inner

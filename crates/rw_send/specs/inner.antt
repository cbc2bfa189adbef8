pub mod EpochSizes
pub mod FeedErrors
pub mod Sending
pub mod Turns

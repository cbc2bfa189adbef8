pub mod Inside
pub mod Replies
pub mod Requests

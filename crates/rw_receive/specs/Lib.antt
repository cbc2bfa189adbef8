pub mod Answering
pub mod Conversations
pub mod Explaining
pub mod Receiving
pub mod Refusing

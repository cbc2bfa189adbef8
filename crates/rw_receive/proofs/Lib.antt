pub mod ConversationLemmas
pub mod HeldLemmas

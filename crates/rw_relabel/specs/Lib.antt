pub mod Choices
pub mod Patterns
pub mod Rules

pub mod PlayedLemmas
pub mod PrintLemmas
pub mod ScriptLemmas
pub mod OrderLemmas
pub mod ScriptTextLemmas

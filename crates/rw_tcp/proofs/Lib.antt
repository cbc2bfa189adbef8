pub mod HearingLemmas
pub mod PackingLemmas

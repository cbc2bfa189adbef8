pub mod RequestLemmas
pub mod AddedRequests

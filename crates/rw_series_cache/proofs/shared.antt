pub mod KnownLemmas
pub mod KnowsLemmas
pub mod PointLemmas
pub mod RisingLemmas
pub mod RouteLemmas
pub mod SeriesLemmas

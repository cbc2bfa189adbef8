pub mod ListingLemmas
pub mod PlacementLemmas
pub mod ShippingLemmas
pub mod SpreadLemmas
pub mod SkewLemmas

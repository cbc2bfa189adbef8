pub mod Fleets
pub mod Lends
pub mod Wanted

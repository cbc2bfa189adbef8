pub mod Sinks
pub mod Segment

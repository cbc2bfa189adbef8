pub mod TwoSeries

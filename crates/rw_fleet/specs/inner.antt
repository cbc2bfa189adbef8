pub mod Positions
pub mod ShardHistories
pub mod Work

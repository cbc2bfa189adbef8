pub mod Inner
pub mod Noting
pub mod Opening
pub mod Restoring

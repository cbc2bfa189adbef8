pub mod Decimals
pub mod ExactText
pub mod DecimalStore
pub mod Parts

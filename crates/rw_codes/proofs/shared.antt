pub mod Digits
pub mod VarintLaws

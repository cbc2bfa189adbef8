pub mod External
pub mod Laws
pub mod Rows
pub mod inner

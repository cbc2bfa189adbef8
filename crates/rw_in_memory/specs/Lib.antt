pub mod Lines
pub mod Held
pub mod Shipped
pub mod inner

pub mod Lines
pub mod Shipped

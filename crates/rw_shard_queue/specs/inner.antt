pub mod Rule
pub mod Spares

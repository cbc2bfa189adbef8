pub mod Folders
pub mod Order

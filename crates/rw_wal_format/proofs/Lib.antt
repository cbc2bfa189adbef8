mod Rows
mod Pages
pub mod shared

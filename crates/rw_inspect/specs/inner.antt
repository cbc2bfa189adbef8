pub mod Cells
pub mod Counting
pub mod Faults
pub mod Finding
pub mod Inspecting
pub mod Table
pub mod Troubles

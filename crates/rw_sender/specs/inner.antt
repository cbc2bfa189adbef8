pub mod Cutting
pub mod Feeders
pub mod Marking
pub mod Reports
pub mod Rooms
pub mod Shipping

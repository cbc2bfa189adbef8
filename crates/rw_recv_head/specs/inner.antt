pub mod Questions
pub mod Seats

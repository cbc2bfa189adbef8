pub mod Growth
pub mod Meals
pub mod Queues
pub mod Turns
pub mod inner

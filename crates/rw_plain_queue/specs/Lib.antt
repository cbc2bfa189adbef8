pub mod Items
pub mod History
pub mod Queue

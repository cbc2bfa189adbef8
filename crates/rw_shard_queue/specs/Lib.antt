pub use Rattle.rw_plain_queue.specs.Items
pub use Rattle.rw_plain_queue.specs.History
pub use Rattle.rw_plain_queue.specs.Queue
pub mod Rule
pub mod Ends
pub mod Taken
pub mod inner

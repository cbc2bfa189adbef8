pub mod Admitted
pub mod Answered
pub mod Kept
pub mod Lives
pub mod Opening
pub mod Past
pub mod Reading
pub mod inner

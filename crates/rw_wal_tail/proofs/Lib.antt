mod CopyLaws
mod FedLaws
mod FormLaws
mod FoundLaws
mod HeldLaws
mod ItemLaws
mod KeptLaws
pub mod LayoutItems
pub mod LayoutLogs
pub mod LayoutPassing
pub mod LayoutReading
pub mod LayoutWriting
mod PlaceSteps
mod SkipLaws
mod StepLaws
mod StillLaws
mod TakingLemmas
mod WaitingLaws
pub mod shared

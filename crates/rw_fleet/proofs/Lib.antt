pub mod PutLemmas
pub mod WindowLemmas
pub mod JoinedLemmas
pub mod SoftLemmas
pub mod LoadLemmas
pub mod StoppedLemmas
pub mod shared

pub mod Passed
pub mod Pasts
pub mod PlainLogs
pub mod ReceivedRuns
pub mod Seatings

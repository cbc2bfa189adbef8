pub mod Appended
pub mod Growing
pub mod Items
pub mod RecordLaws
pub mod SeriesRows
pub mod Tailing
pub mod Written

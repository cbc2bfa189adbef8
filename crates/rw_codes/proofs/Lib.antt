pub mod CrcLaws
pub mod CrcTables
mod CodeRows
pub mod shared

pub mod Varint
pub mod Crc

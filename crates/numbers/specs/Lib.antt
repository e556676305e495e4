pub mod Whole
pub mod Bytes
pub mod Table

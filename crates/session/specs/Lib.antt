pub mod Input
pub mod Lines
pub mod Session

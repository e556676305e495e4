pub mod Character
pub mod Digit
pub mod Search
pub mod Print

pub mod Row
pub mod Line

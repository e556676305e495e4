pub mod Delay
pub mod Cable

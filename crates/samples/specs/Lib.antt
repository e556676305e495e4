pub mod Rate
pub mod Keep
pub mod Demands

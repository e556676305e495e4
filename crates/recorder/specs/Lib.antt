pub mod Stamp
pub mod Promises
pub mod Conditions
pub mod Demands
pub mod Edges

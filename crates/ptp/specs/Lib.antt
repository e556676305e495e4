pub mod Timestamp
pub mod Scale
pub mod Order
pub mod Demands
pub mod Edges

pub mod Bus
pub mod Order
pub mod Demands
pub mod Edges

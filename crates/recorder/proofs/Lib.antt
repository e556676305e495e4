pub mod DistanceLaws
pub mod StampLaws
pub mod PromiseLaws
pub mod Near
pub mod Order
pub mod Conditions
pub mod Edges
pub mod Listeners

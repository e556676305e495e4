pub mod BusLaws
pub mod PromiseLaws
pub mod Trips
pub mod Order
pub mod Edges

pub mod PromiseLaws
pub mod TimestampLaws
pub mod Trips
pub mod ScaleLaws
pub mod Edges
pub mod Order

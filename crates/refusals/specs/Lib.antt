pub mod Chain
pub mod Refusals
pub mod Answer
pub mod Order
pub mod Promises
pub mod Literals
pub mod Edge

pub mod PortLaws
pub mod Leaves
pub mod Literals
pub mod Order
pub mod Edges
pub mod Versions
pub mod Three
pub mod ListenerLaws

pub mod RowLaws
pub mod FrameLaws
pub mod Trip
pub mod Cases
pub mod Order
pub mod Literals

pub mod LatchLaws

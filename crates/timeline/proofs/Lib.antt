pub mod Bound
pub mod Chain
pub mod Jitter
pub mod SentLaws
pub mod Departures
pub mod PpmLaws
pub mod DriftLaws

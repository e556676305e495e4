pub mod DelayLaws
pub mod Shares
pub mod CableLaws
pub mod CableFigures
pub mod RoundTrips

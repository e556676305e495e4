pub mod Line
pub mod Sent
pub mod Drift
pub mod Jitter

pub mod FedLaws
pub mod InputLaws
pub mod LineLaws
pub mod TwoReads
pub mod WholeInput

pub mod RateLaws
pub mod KeepLaws
pub mod Three

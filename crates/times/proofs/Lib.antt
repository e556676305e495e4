pub mod TestLaws
pub mod TimeLaws
pub mod RiseLaws
pub mod ErrorLaws
pub mod Cases
pub mod PartLaws

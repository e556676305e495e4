pub mod DigitLaws
pub mod SearchLaws
pub mod PrintLaws

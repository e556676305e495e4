pub mod AnswerLaws
pub mod Order
pub mod Literals
pub mod PromiseLaws

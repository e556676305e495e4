pub mod FieldLaws
pub mod FormLaws
pub mod FormTheorem

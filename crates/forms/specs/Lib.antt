pub mod Field
pub mod Form
pub mod Value

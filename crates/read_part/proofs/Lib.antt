pub mod FieldsLeft

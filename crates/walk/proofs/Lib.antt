pub mod Views
pub mod Wholes

pub mod Fields
pub mod Choices

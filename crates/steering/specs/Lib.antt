pub mod Steering
pub mod Layout
pub mod Meant
pub mod inner

pub mod Vectors
pub mod Steerings

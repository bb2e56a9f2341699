pub mod Expected
pub mod Front
pub mod Strings
pub mod Tallied

pub mod Longest
pub mod Room
pub mod Specimens

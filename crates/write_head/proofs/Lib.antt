pub mod Lengths
pub mod Heads
pub mod Strings
pub mod Integers

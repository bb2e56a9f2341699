pub mod Passing
pub mod Putting

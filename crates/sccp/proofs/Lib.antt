pub mod Ranges
pub mod Standing
pub mod Promises
pub mod Written
pub mod Specimens

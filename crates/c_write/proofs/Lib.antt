pub mod Writing
pub mod Shortest
pub mod Tags

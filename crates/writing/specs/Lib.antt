pub mod Writing
pub mod Octets
pub mod Reasons
pub mod Shortest
pub mod inner

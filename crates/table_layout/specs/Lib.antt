pub mod Octets
pub mod inner

pub mod Unitdata
pub mod Standing
pub mod Writing
pub mod inner

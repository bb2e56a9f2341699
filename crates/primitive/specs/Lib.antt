pub mod Primitive
pub mod inner

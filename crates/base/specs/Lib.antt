pub mod Number
pub mod Value
pub mod Text
pub mod inner

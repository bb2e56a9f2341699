pub mod Finding
pub mod Typed
pub mod Doing
pub mod Counting
pub mod Holding
pub mod Happening
pub mod Page
pub mod Promises

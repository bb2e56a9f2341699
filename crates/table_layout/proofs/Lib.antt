pub mod Entries
pub mod Walking
pub mod Learning
pub mod Numbers
pub mod Promises

pub mod Codes
pub mod Rules
pub mod Promises
pub mod Layouts

pub mod Chunks
pub mod Places
pub mod Rows

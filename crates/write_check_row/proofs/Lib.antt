pub mod Joining
pub mod Leaves
pub mod Rows
pub mod Listed
pub mod Shapes
pub mod Chunks

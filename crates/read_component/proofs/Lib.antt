pub mod Rows
pub mod Values
pub mod FaultIds
pub mod Ids
pub mod RowsLeft

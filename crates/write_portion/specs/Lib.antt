pub mod Enclosed
pub mod Transaction

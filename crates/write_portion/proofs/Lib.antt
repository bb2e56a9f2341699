pub mod Around
pub mod Transactions

pub mod LaidRow
pub mod LaidHead
pub mod Accepted
pub mod Outcomes
pub mod Records
pub mod Few
pub mod Octets

pub mod PortionFaults
pub mod Fields
pub mod Portions
pub mod Messages

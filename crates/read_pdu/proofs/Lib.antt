pub mod Taking
pub mod Externals
pub mod Pdus

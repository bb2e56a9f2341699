pub mod NoOrig
pub mod Unknown
pub mod Origs
pub mod Refusals

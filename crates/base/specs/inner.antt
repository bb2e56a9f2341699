pub mod Back
pub mod Put

pub mod RoundTrip
pub mod Chosen
pub mod Readings
pub mod Typed

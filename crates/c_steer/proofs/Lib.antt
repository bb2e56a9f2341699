pub mod Steered

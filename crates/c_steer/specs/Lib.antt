pub mod Steer

pub mod Unitdata

pub mod Pairs
pub mod Contents

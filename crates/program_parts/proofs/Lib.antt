pub mod Judging
pub mod Coming
pub mod Fits
pub mod Telling

pub mod Tests
pub mod Numbers
pub mod Values
pub mod Puts
pub mod Backs

pub mod Forms
pub mod Judged

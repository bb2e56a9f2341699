pub mod Dialogues
pub mod Messages

pub mod Choices
pub mod Steps
pub mod Digits
pub mod TurnLines

pub mod Places
pub mod Codes
pub mod Levels

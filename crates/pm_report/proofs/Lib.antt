pub mod Lines
pub mod Stored

pub mod Plain
pub mod Members
pub mod Levels
pub mod Between
pub mod Whole

pub mod Words
pub mod Codes
pub mod Faults
pub mod Fields
pub mod Parts
pub mod Ops

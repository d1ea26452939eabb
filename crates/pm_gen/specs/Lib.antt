pub mod Bounds
pub mod Asking
pub mod Draws
pub mod Turns
pub mod Lines
pub mod Session
pub mod Summary

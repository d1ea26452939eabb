pub mod Sides
pub mod Cuts

pub mod Cuts
pub mod Timely
pub mod Gathers
pub mod Steps
pub mod Joins
pub mod Views

pub mod Making
pub mod Makers

pub mod Attrs
pub mod Lawful

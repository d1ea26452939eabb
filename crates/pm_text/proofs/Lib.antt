pub mod AsciiText
pub mod Spelled
pub mod Steps

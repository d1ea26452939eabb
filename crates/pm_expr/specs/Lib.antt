pub mod Tokens
pub mod Names
pub mod Grammar
pub mod Levels
pub mod Reading
pub mod Reader
pub mod Tables
pub mod Views

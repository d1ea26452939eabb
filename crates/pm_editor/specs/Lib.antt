pub mod Editors
pub mod Talk
pub mod Lines
pub mod Laws

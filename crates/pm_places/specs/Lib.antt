pub mod Words
pub mod Nexts
pub mod Laws

pub mod Exchanges
pub mod Words
